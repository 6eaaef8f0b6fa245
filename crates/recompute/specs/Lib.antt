pub mod Bests
pub mod Origins
pub mod Places
pub mod Ways
