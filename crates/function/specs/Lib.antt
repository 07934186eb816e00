-- The elements and the function space (`Elements`), on a mesh that is lent (`Lent`), colours (`Colours`), with the examples of these (`Examples`). What is promised
-- of the colours: `proofs/ColoursPromises.antt`. Laws: of what check 4 says (`ElementsFacts`), and for the proofs (`ColoursFacts`).
pub mod Elements
pub mod ElementsFacts
pub mod Lent
pub mod Colours
pub mod Examples
pub mod ColoursFacts
