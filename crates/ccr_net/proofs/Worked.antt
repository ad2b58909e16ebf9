-- Worked runs, computed step by step.
pub mod WiringsInShort
pub mod Rivals
pub mod Taker
pub mod TakerIsLegal
pub mod Throttle
