pub mod SoundHistory
pub mod Request
