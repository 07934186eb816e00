-- Two triangles (`Triangles`), laws of their pattern and of check 7 (`TrianglesFacts`), and of the 27 cases as the code writes them (`Written`).
pub mod Triangles
pub mod TrianglesFacts
pub mod Written
