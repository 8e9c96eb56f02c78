use Rattle.counting_word.proofs.seat.Counter.hand.Given as goal

abbrev pub ghosts-hand_out : goal.ghosts-hand_out
ghosts-hand_out g a = record { ticket = a.ticket }
