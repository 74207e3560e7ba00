pub mod Printed
pub mod Views
pub mod Refusals
pub mod Trees
pub mod Accepted
