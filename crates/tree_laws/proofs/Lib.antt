pub mod Standing
pub mod Heads
pub mod ReadBack
pub mod StoredBytes
pub mod ReadFormed
pub mod OneToOne
pub mod Samples
