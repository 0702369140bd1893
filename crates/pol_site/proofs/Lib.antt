pub mod SampleSite
pub mod SampleFollowing
pub mod SampleOwners
pub mod SampleCommanded
pub mod SampleSettled
pub mod SampleShown
