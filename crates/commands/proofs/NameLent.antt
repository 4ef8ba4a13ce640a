-- The name lent beside a command. Assumes nothing.
use mathlib.Core.List.{List}
use Prim.Native.Nat.{ℕ}
use Rattle.rules.specs.Bytes.{Bytes}
use Rattle.rules.specs.Book.{NameBytes}
use Rattle.commands.specs.Begins.{command_of}
use Rattle.commands.specs.declared.Command.{Command}
use Rattle.commands.specs.declared.Command.TheVariants.{Enable, Disable, Rename, Create, Delete, Repair}

-- where it is bytes, so is the name in the command
pub bytes_lent : (command : Command) (name : List ℕ) → Bytes name → NameBytes (command_of command name)
unfolding command_of NameBytes
bytes_lent (Enable slot) name bytes = tt
bytes_lent (Disable slot) name bytes = tt
bytes_lent (Rename slot) name bytes = bytes
bytes_lent (Create size) name bytes = bytes
bytes_lent (Delete slot) name bytes = tt
bytes_lent Repair name bytes = tt
