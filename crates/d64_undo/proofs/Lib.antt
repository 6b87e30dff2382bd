pub mod SoundHistories
pub mod Runs
