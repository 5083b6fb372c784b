pub mod Strips
pub mod RimHooks
pub mod HookSizes
pub mod Reflections
pub mod Containment
