-- The call of a command that a `match` has told apart. Assumes nothing.
use mathlib.Core.Path.{◌≡◌, sym, ◌∙◌, ap}
use Rattle.records.specs.declared.Command.{Command}
use Rattle.store.specs.declared.Control.{Control}
use Rattle.layout.specs.Memory.{Lent}
use Rattle.store.specs.Refusals.{Outcome}
use Rattle.store.specs.Calls.{does}
use Rattle.commands.specs.Call.{call_of}

pub runs : (c : Control) (m : Lent) {command command' : Command} {o : Outcome} → command ≡ command' → o ≡ does (call_of command') c m → o ≡ does (call_of command) c m
runs c m is called = called ∙ ap (λ k. does (call_of k) c m) (sym is)
