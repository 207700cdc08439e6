-- How many digits are still to come.
use Rattle.job_text.proofs.+put_hexadecimal.Given as goal

abbrev pub decreases-put_hexadecimal : goal.decreases-put_hexadecimal
decreases-put_hexadecimal l = l.places
