pub mod ListPlaces
pub mod Numbers
pub mod Packings
pub mod RoomPlaces
pub mod Small
pub mod Stops
pub mod TreePlaces
pub mod Within
