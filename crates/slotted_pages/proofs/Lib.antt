pub mod PageLaws
pub mod LoopLaws
pub mod ViewLaws
pub mod BytesLaws
pub mod EditLaws
pub mod SlotLaws
pub mod WholeLaws
