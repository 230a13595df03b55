pub mod Bytes
pub mod Signs
pub mod ReservedWords
pub mod Pieces
pub mod Tokens
pub mod Scan
pub mod ScannedPieces
pub mod LexCodes
