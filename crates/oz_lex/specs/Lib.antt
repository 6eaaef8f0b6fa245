pub mod Scanning
pub mod Lexing
