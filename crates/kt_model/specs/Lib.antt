pub mod Distribution
pub mod Scratch
pub mod Rising
pub mod Seen
