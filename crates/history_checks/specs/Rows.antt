-- Schedules with what is printed of them, written out.
use Rattle.std.specs.Prelude.{◌≡◌, [], ◌∷◌, ◌++◌, codes}
use Rattle.pc_terms.specs.Bytes.{Bytes}
use Rattle.ask_history.specs.declared.answers.Answer.TheVariants as answer
use Rattle.ask_history.specs.declared.script.Line.{Line}
use Rattle.ask_history.specs.declared.script.Order.TheVariants.{Cancel, Close, Idle}
use Rattle.history_checks.specs.Lines.{reload_a, reload_a2, reload_both, remove_a, type_a, line, inner, in_check, printed}

-- the events of `reload A.scala` at the start of a schedule
abbrev pub reloaded_a : Bytes
reloaded_a = codes "0\taccept\t0\t0\t1\treload A.scala 22\n1\tsettle\t0\tdone\n"

-- ---- cancels

-- A cancel inside its ask marks it.
abbrev pub CancelInside : Type 0
CancelInside = printed [] (line reload_a ∷ line (type_a 19) ∷ inner 1 9 (Cancel 2) ∷ []) (answer.Done ∷ answer.Cancelled ∷ []) []
    ≡ codes "journal\t5\n" ++ reloaded_a
    ++ codes "2\taccept\t1\t0\t2\ttype A.scala 19\n3\tcancel\t1\n4\tsettle\t1\tdone\n"
    ++ codes "client\t0\n1\tdone\n2\tcancelled\ncancel\t2\tmarked\t3\nend\n"

-- After its ask it is late.
abbrev pub CancelAfter : Type 0
CancelAfter = printed [] (line reload_a ∷ line (type_a 23) ∷ line (Cancel 2) ∷ []) (answer.Done ∷ answer.NoTree ∷ []) []
    ≡ codes "journal\t4\n" ++ reloaded_a
    ++ codes "2\taccept\t1\t0\t2\ttype A.scala 23\n3\tsettle\t1\tdone\n"
    ++ codes "client\t0\n1\tdone\n2\tnotree\ncancel\t2\tlate\t3\nend\n"

-- Before its call it changes nothing, and is printed as late where the call is settled.
abbrev pub CancelAhead : Type 0
CancelAhead = printed [] (line reload_a ∷ line (Cancel 2) ∷ line (type_a 23) ∷ []) (answer.Done ∷ answer.NoTree ∷ []) []
    ≡ codes "journal\t4\n" ++ reloaded_a
    ++ codes "2\taccept\t1\t0\t2\ttype A.scala 23\n3\tsettle\t1\tdone\n"
    ++ codes "client\t0\n1\tdone\ncancel\t2\tlate\t3\n2\tnotree\nend\n"

-- A cancel of the outer of two asks marks that one, and the inner one goes on.
abbrev pub CancelOuter : Type 0
CancelOuter = printed [] (line reload_a ∷ line (type_a 19) ∷ inner 1 0 (type_a 23) ∷ inner 2 0 (Cancel 2) ∷ []) (answer.Done ∷ answer.Cancelled ∷ answer.NoTree ∷ []) []
    ≡ codes "journal\t7\n" ++ reloaded_a
    ++ codes "2\taccept\t1\t0\t2\ttype A.scala 19\n3\taccept\t2\t0\t3\ttype A.scala 23\n4\tcancel\t1\n"
    ++ codes "5\tsettle\t2\tdone\n6\tsettle\t1\tdone\n"
    ++ codes "client\t0\n1\tdone\n2\tcancelled\n3\tnotree\ncancel\t2\tmarked\t4\nend\n"

-- ---- shutdowns

-- A shutdown in the innermost of three asks settles all three, the outermost first.
abbrev pub CloseInside : Type 0
CloseInside = printed [] (
    line reload_a ∷ line (type_a 19) ∷ inner 1 0 (type_a 15) ∷ inner 2 0 (type_a 20) ∷ inner 3 0 Close ∷ line (type_a 19) ∷ []
    ) (answer.Done ∷ answer.Closed ∷ answer.Closed ∷ answer.Closed ∷ []) []
    ≡ codes "journal\t9\n" ++ reloaded_a
    ++ codes "2\taccept\t1\t0\t2\ttype A.scala 19\n3\taccept\t2\t0\t3\ttype A.scala 15\n4\taccept\t3\t0\t4\ttype A.scala 20\n"
    ++ codes "5\tclose\n6\tsettle\t1\tdone\n7\tsettle\t2\tdone\n8\tsettle\t3\tdone\n"
    ++ codes "client\t0\n1\tdone\n2\tclosed\n3\tclosed\n4\tclosed\nclose\t5\n5\trefused\tclosed\t5\nend\n"

-- A cancel after a shutdown inside its ask is late: the shutdown has settled the ask.
abbrev pub CancelAfterClose : Type 0
CancelAfterClose = printed [] (line reload_a ∷ line (type_a 19) ∷ inner 1 0 Close ∷ inner 1 0 (Cancel 2) ∷ []) (answer.Done ∷ answer.Closed ∷ []) []
    ≡ codes "journal\t5\n" ++ reloaded_a
    ++ codes "2\taccept\t1\t0\t2\ttype A.scala 19\n3\tclose\n4\tsettle\t1\tdone\n"
    ++ codes "client\t0\n1\tdone\n2\tclosed\nclose\t3\ncancel\t2\tlate\t4\nend\n"

-- After a shutdown calls are refused, and so are those under them; a cancel is none; an `idle` and a second shutdown add nothing.
abbrev pub AfterClose : Type 0
AfterClose = printed [] (
    line reload_a ∷ line Close ∷ line reload_a2 ∷ line (type_a 19) ∷ inner 1 0 (type_a 15) ∷ line (Cancel 3) ∷ line Idle ∷ line Close ∷ []
    ) (answer.Done ∷ []) []
    ≡ codes "journal\t3\n" ++ reloaded_a ++ codes "2\tclose\n"
    ++ codes "client\t0\n1\tdone\nclose\t2\n2\trefused\tclosed\t2\n3\trefused\tclosed\t2\n4\trefused\tclosed\t2\ncancel\t3\tnone\nclose\t2\nend\n"

-- ---- inner lines

-- Mutations inside an ask are settled before it, in order.
abbrev pub MutationsInside : Type 0
MutationsInside = printed [] (line reload_a ∷ line (type_a 23) ∷ inner 1 0 remove_a ∷ inner 1 0 reload_a2 ∷ []) (answer.Done ∷ answer.NoTree ∷ answer.Done ∷ answer.Done ∷ []) []
    ≡ codes "journal\t8\n" ++ reloaded_a
    ++ codes "2\taccept\t1\t0\t2\ttype A.scala 23\n3\taccept\t2\t0\t3\tremove A.scala\n4\tsettle\t2\tdone\n"
    ++ codes "5\taccept\t3\t0\t4\treload A.scala 24\n6\tsettle\t3\tdone\n7\tsettle\t1\tdone\n"
    ++ codes "client\t0\n1\tdone\n2\tnotree\n3\tdone\n4\tdone\nend\n"

-- A ticket that found no memory is marked, and its inner lines are played.
abbrev pub OutOfMemory : Type 0
OutOfMemory = printed (1 ∷ []) (line reload_a ∷ line (type_a 19) ∷ inner 1 0 (type_a 23) ∷ []) (answer.Done ∷ answer.NoMemory ∷ answer.NoTree ∷ []) []
    ≡ codes "journal\t6\n" ++ reloaded_a
    ++ codes "2\taccept\t1\t0\t2\ttype A.scala 19\n3\taccept\t2\t0\t3\ttype A.scala 23\n4\tsettle\t2\tdone\n5\tsettle\t1\tnomemory\n"
    ++ codes "client\t0\n1\tdone\n2\tnomemory\n3\tnotree\nend\n"

-- ---- checks

-- Every loaded file is checked once; a second `idle` finds none due.
abbrev pub IdleTwice : Type 0
IdleTwice = printed [] (line reload_a ∷ line Idle ∷ line Idle ∷ []) (answer.Done ∷ []) ([] ∷ [])
    ≡ codes "journal\t3\n" ++ reloaded_a ++ codes "2\tchecked\tA.scala\t0\nclient\t0\n1\tdone\nend\n"

-- A reload in the second check makes the first file due again.
abbrev pub ReloadInCheck : Type 0
ReloadInCheck = printed [] (line reload_both ∷ line Idle ∷ in_check 1 1 0 reload_a2 ∷ []) (answer.Done ∷ answer.Done ∷ []) ([] ∷ [] ∷ [] ∷ [])
    ≡ codes "journal\t7\n0\taccept\t0\t0\t1\treload A.scala 22 B.scala 33\n1\tsettle\t0\tdone\n2\tchecked\tA.scala\t0\n"
    ++ codes "3\taccept\t1\t0\t2\treload A.scala 24\n4\tsettle\t1\tdone\n5\tchecked\tA.scala\t0\n6\tchecked\tB.scala\t0\n"
    ++ codes "client\t0\n1\tdone\n2\tdone\nend\n"

-- Lines of a check that does not take place come after the last check.
abbrev pub NoSuchCheck : Type 0
NoSuchCheck = printed [] (line reload_a ∷ line Idle ∷ in_check 1 0 0 (type_a 23) ∷ in_check 1 5 0 (type_a 24) ∷ []) (answer.Done ∷ answer.NoTree ∷ answer.NoTree ∷ []) ([] ∷ [])
    ≡ codes "journal\t7\n" ++ reloaded_a
    ++ codes "2\taccept\t1\t0\t2\ttype A.scala 23\n3\tsettle\t1\tdone\n4\tchecked\tA.scala\t0\n5\taccept\t2\t0\t3\ttype A.scala 24\n6\tsettle\t2\tdone\n"
    ++ codes "client\t0\n1\tdone\n2\tnotree\n3\tnotree\nend\n"

-- Where the last file is removed in its check, no check is noted.
abbrev pub RemoveInCheck : Type 0
RemoveInCheck = printed [] (line reload_a ∷ line Idle ∷ in_check 1 0 0 remove_a ∷ []) (answer.Done ∷ answer.Done ∷ []) []
    ≡ codes "journal\t4\n" ++ reloaded_a ++ codes "2\taccept\t1\t0\t2\tremove A.scala\n3\tsettle\t1\tdone\n"
    ++ codes "client\t0\n1\tdone\n2\tdone\nend\n"

-- An `idle` under an open ask checks nothing, and its inner lines are played.
abbrev pub IdleInAsk : Type 0
IdleInAsk = printed [] (line reload_a ∷ line (type_a 23) ∷ inner 1 0 Idle ∷ in_check 2 0 0 (type_a 24) ∷ []) (answer.Done ∷ answer.NoTree ∷ answer.NoTree ∷ []) []
    ≡ codes "journal\t6\n" ++ reloaded_a
    ++ codes "2\taccept\t1\t0\t2\ttype A.scala 23\n3\taccept\t2\t0\t3\ttype A.scala 24\n4\tsettle\t2\tdone\n5\tsettle\t1\tdone\n"
    ++ codes "client\t0\n1\tdone\n2\tnotree\n3\tnotree\nend\n"
