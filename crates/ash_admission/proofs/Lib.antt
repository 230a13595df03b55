pub mod Tests
pub mod PlaceLaws
pub mod ShapeLaws
pub mod ValueLaws
pub mod ElementLaws
pub mod ContentLaws
pub mod AdmissionLaws
pub mod ValueLoops
