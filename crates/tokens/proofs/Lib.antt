pub mod Cycle
pub mod Listed
pub mod FrontParts
pub mod PlainTokens
pub mod Whole
pub mod OnePass
pub mod Numbers
