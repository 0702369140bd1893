pub mod Migration
pub mod Job
