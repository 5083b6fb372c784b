pub mod HookRows
