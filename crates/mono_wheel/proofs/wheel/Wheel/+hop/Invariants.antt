use Rattle.mono_wheel.proofs.wheel.Wheel.+hop.Given as goal

abbrev pub decreases-hop : goal.decreases-hop
decreases-hop l = l.count
