pub mod Pushing
pub mod Running
pub mod Holding
pub mod Held
pub mod Rooms
pub mod Stops
