use Rattle.desk_driver.proofs.driving.drive.Given as goal

abbrev pub ghosts-drive_begun : goal.ghosts-drive_begun
ghosts-drive_begun g a = record { begun = a.pass.pass; count = a.pass.made }
