-- Laws of the C face.
mod Replies
