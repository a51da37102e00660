pub mod Window
pub mod ThreeWindows
pub mod Decision
