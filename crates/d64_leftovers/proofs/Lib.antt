pub mod DeletedRows
pub mod FileRows
pub mod LeftBlocks
pub mod OrphanRows
pub mod RowLists
