pub mod MemoryHost
