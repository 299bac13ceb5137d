-- Laws of the C face.
pub mod Faces
