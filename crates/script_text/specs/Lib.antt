pub mod Dump
pub mod Number
pub mod Parts
pub mod RawLines
pub mod Script
pub mod Words
pub mod HeldLine
