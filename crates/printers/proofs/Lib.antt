pub mod Going
pub mod Exact
pub mod Pushing
pub mod Tables
pub mod Items
pub mod Leaves
pub mod Bits
pub mod Opening
