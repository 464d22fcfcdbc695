pub mod Build
pub mod BuildLaws
pub mod RecordLaws
pub mod CoverageLaws
