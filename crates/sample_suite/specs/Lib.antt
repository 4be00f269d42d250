pub mod Drawing
pub mod SampleText
pub mod Laws
