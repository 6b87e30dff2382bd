pub mod Contents
pub mod ContentTables
pub mod Conditions
pub mod Rows
pub mod ListingAmiss
pub mod ContentLaws
