pub mod Lines
pub mod OneProof
