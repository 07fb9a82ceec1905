pub mod Names
pub mod Files
pub mod Texts
pub mod Midway
pub mod Growing
pub mod Composing
pub mod Beside
pub mod Hands
