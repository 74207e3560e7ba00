pub mod Items
pub mod Leaves
pub mod Records
pub mod Lists
