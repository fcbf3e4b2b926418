use Rattle.vectors.proofs.+take_requests.Given as goal

abbrev pub decreases-take_requests : goal.decreases-take_requests
decreases-take_requests g l = l.level
