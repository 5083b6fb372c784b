pub mod LineExpression
