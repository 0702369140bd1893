pub mod Rules
pub mod Giving
pub mod Verdicts
pub mod Form
pub mod Tables
pub mod PlainPlantPolicy
pub mod Laws
