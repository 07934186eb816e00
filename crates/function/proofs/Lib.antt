-- What is promised of the colours (`ColoursPromises`).
pub mod ColoursPromises
