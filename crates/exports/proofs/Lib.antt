pub mod OneCallMore
pub mod RunParts
