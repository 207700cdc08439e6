-- When two recordings are one, louder or softer by a power of two, and perhaps reversed; what is given alike to two calls, and what is equal after them.
pub mod Scaled
pub mod Alike
pub mod SameRun
