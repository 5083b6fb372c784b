pub mod Postorder
pub mod Values
pub mod Clearing
pub mod Strips
pub mod Contents
pub mod SchurLists
pub mod Operands
