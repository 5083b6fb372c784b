-- The machine that reads expressions byte by byte, and the first minus or fraction in an expression.
pub mod LeftToRight
pub mod Signs
