pub mod Extracts
