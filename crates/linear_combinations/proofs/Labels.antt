-- The equality tests and the orders of the labels, for the proofs of the crates that use tables.
pub use Rattle.printing_laws.proofs.Labels.{same_partition, same_pair, same_power}
pub use Rattle.printing_laws.proofs.Labels.{partition_order_equal, permutation_order_is_total, permutation_order_equal, pair_order_is_total, pair_order_equal, power_order_is_total, power_order_equal, monomial_order_equal, shifted_order_is_total, shifted_order_equal}
pub use Rattle.printing_laws.proofs.Labels.{same_number, falling_numbers_total, falling_numbers_equal, falling_lists_total, falling_lists_equal}
