pub mod BetaSets
