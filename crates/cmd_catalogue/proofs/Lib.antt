mod FileRows
mod LinkedRows
