pub mod Tokens
pub mod Meant
pub mod Working
pub mod Sound
pub mod Refusing
