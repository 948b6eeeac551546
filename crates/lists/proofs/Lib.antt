pub mod All
pub mod AllOf
pub mod Closing
pub mod Index
pub mod Places
pub mod Tests
