-- How the program ends.
pub use Rattle.command_line.specs.Status.{code_of, IsRefusal}
