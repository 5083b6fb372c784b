pub mod Monk
pub mod RowPaths
pub mod RowProducts
pub mod ShortPerms
