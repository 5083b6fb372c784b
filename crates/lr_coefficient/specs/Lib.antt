pub mod SameCoefficient
