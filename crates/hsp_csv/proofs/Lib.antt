mod Reading
mod Headers
mod RecordFields
pub mod SameFields
mod PlainLines
mod Marks
mod Shapes
mod Commas
mod EscapedFields
mod Walking
mod PassedMarks
mod PlacedFields
