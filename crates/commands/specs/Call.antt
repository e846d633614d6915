-- The call of the rules for each case of a command: "DF define, CH change, FD find, RM remove, ST settle (the key word is n)". Assumes nothing.
use Rattle.rules.specs.Calls.{Call, Define as define, Change as change, Find as find, Remove as remove, Settle as settle}
use Rattle.records.specs.declared.Command.{Command}
use Rattle.records.specs.declared.Command.TheVariants.{Define, Change, Find, Remove, Settle}

abbrev pub call_of : Command → Call
call_of (Define key value) = define key value
call_of (Change key value) = change key value
call_of (Find key) = find key
call_of (Remove key) = remove key
call_of (Settle n) = settle n
