use Rattle.paraid_schedule.proofs.CertificateLemmas.{spin_ups_few}
use Rattle.paraid_schedule.proofs.laws.a_schedule_spins_no_disk_up_too_often.Goals as goal

pub returns : goal.returns
returns c = λ demand gears ups d is. spin_ups_few c.args.setup.now demand ups gears is d
